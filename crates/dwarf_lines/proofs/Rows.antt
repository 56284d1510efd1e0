pub mod LineLaws
pub mod RowCounts
pub mod RowOrder
pub mod RowPaths
pub mod SequenceChains
pub mod Sequences
