pub mod Units
pub mod Names
pub mod Scopes
pub mod Order
pub mod TreeLaws
pub mod Passes
pub mod Private
