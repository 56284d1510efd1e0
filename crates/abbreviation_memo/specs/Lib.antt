pub mod Lists
pub mod Private
