pub mod FrameChains
pub mod FrameLaws
pub mod FrameTurns
pub mod SiteLaws
pub mod WalkLaws
pub mod EmptyNames
