pub mod Cached
pub mod Serials
pub mod Rising
pub mod Refusals
