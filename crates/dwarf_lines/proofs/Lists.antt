pub mod Fronts
pub mod Positions
pub mod Repeated
pub mod Spans
