pub mod Printable
pub mod Numerals
pub mod Pending
pub mod Text
pub mod Private
