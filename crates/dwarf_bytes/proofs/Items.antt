pub mod EachLaws
pub mod EachPlaces
pub mod FirstInvalid
pub mod ItemLaws
pub mod Turns
