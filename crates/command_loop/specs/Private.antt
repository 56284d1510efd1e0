pub mod Commands
pub mod Progress
pub mod Outcomes
