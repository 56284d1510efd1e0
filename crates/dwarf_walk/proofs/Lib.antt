pub mod StoredNodes
pub mod BitmapLaws
pub mod ScopeLaws
pub mod WalkTurns
pub mod RereadLaws
