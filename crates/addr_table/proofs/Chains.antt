pub mod ChainEnds
pub mod ChainLaws
pub mod ChainWalks
pub mod NestedChains
pub mod ParentLaws
pub mod ParentSearch
pub mod ParentWalkLaws
pub mod TopLaws
