pub mod NameSets
pub mod Memo
