pub mod Extent
pub mod ObjectLaws
pub mod SectionFaults
pub mod SectionItems
pub mod Sections
pub mod ValidObject
pub mod ValidSections
