-- The proof of a function finds all names that it cites here: those of Common, which are from
-- elsewhere, and the lemmas of this crate.
pub mod Common
pub mod UnitLaws
pub mod TableLaws
pub mod ListLaws
pub mod EntryAdvances
pub mod EntryOrder
pub mod FixedValues
pub mod RunReads
pub mod StoredReads
pub mod NodeLayouts
pub mod LinkLaws
pub mod IndexLaws
pub mod SlotLaws
unfoldable pub use Common.*
pub use UnitLaws.*
pub use TableLaws.*
pub use ListLaws.*
pub use EntryAdvances.*
pub use EntryOrder.*
pub use FixedValues.*
pub use RunReads.*
pub use StoredReads.*
pub use NodeLayouts.*
pub use LinkLaws.*
pub use IndexLaws.*
pub use SlotLaws.*
