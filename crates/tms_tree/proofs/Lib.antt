pub mod Overlapping
pub mod Places
pub mod Rows
pub mod Touching
pub mod Turns
