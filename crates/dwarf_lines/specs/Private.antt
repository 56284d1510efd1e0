pub mod Registers
pub mod Readers
pub mod Stored
pub mod Runs
pub mod Operands
