pub mod Offsets
pub mod ProgramTurns
pub mod SectionEncodings
pub mod WholePrograms
