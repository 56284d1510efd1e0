pub mod WalkedScopes
pub mod Readers
