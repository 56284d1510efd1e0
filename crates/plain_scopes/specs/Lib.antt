pub mod Walk
pub mod Names
pub mod Scopes
