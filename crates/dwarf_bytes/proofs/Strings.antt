pub mod FirstNuls
pub mod NulIndex
pub mod SectionNames
pub mod StringLaws
