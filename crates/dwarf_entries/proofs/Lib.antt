-- The proof of a function finds all names that it cites here: those of Common, which are from
-- elsewhere, and the lemmas of this crate.
pub mod Common
pub mod UnitPasses
pub mod ScopePasses
pub mod OriginChains
pub mod Results
unfoldable pub use Common.*
pub use UnitPasses.PassLaws.*
pub use UnitPasses.HeaderLaws.*
pub use UnitPasses.UnitLaws.*
pub use UnitPasses.RereadLaws.*
pub use ScopePasses.SiteLaws.*
pub use ScopePasses.RootsPass.*
pub use ScopePasses.DataLaws.*
pub use OriginChains.ChainLaws.*
pub use OriginChains.ReferenceLaws.*
pub use Results.BelowLaws.*
pub use Results.TreeParts.*
pub use Results.ScopePlaces.*
