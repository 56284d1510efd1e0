pub mod CrossCheckLaws
pub mod DecodeLaws
pub mod EachTurns
pub mod ExtentLaws
pub mod FaultLaws
pub mod FewLaws
pub mod ModuleLaws
pub mod ScopeDataLaws
