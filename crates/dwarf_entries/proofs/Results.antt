pub mod BelowLaws
pub mod TreeParts
pub mod ScopePlaces
