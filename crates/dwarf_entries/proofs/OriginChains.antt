pub mod ChainLaws
pub mod ReferenceLaws
