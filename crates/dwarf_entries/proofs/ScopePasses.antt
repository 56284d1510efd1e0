pub mod SiteLaws
pub mod RootsPass
pub mod DataLaws
