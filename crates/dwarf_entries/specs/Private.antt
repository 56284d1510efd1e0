pub mod EntryOffsets
pub mod StringSections
pub mod Members
pub mod PackedNames
pub mod NameCache
pub mod Shared
pub mod Passes
pub mod ObjectUnits
