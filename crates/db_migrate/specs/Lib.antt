pub mod Moves
pub mod Migrated
pub mod Laws
