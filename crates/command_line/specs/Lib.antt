pub mod CommandLine
pub mod Numbers
pub mod Settings
pub mod Refusals
pub mod Private
