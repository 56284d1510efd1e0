pub mod BoundLaws
pub mod Constant
pub mod KeyLaws
pub mod SameScopes
pub mod ScopeKeys
pub mod SweepLaws
pub mod SweepTurns
