pub mod Index
pub mod Codes
