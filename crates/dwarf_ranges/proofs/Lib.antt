pub mod BaseLaws
pub mod EntryLaws
pub mod ListLaws
pub mod ScopeBudget
