pub mod Divisors
pub mod Codes
pub mod Frames
