pub mod Lists
pub mod PlaceLaws
pub mod ScanLaws
pub mod WordLaws
