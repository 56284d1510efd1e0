pub mod PassLaws
pub mod HeaderLaws
pub mod UnitLaws
pub mod RereadLaws
