pub mod Fronts
pub mod WalkTurns
pub mod UnitTurns
pub mod ReferenceTurns
pub mod ScopeTurns
