pub mod Files
pub mod Leaving
