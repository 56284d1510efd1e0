pub mod World
pub mod Changes
pub mod Answers
pub mod Counts
pub mod Listing
pub mod Words
pub mod Private
