pub mod Serving
pub mod Trouble
