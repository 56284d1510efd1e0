pub mod Bases
pub mod Ranges
