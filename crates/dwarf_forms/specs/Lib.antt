pub mod Values
pub mod Declarations
pub mod Tables
pub mod Steps
pub mod Private
