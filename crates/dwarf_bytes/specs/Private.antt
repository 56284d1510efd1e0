pub mod Extents
pub mod FoundSections
pub mod LebPrefixes
pub mod Nuls
pub mod SectionNames
