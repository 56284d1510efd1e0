pub mod Fixed
pub mod Nuls
pub mod Numbers
pub mod Strings
pub mod Contents
pub mod Objects
pub mod Items
