pub mod ActiveCounts
pub mod ActiveLaws
pub mod BitLaws
pub mod ChainCounts
pub mod FilledLaws
pub mod FirstBits
pub mod FirstLaws
pub mod KeyCounts
