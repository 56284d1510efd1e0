pub mod WordLemmas
pub mod SizeLemmas
pub mod ParserLemmas
pub mod SettingsLemmas
pub mod NumberLemmas
