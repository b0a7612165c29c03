pub mod GridLines
pub mod Surface
