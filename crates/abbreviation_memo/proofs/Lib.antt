pub mod SetLaws
pub mod ListLaws
pub mod MapLaws
pub mod MemoLaws
