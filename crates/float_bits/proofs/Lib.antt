pub mod Significands
pub mod Formats
pub mod Patterns
