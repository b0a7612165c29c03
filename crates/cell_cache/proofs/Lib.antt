pub mod Fetching
pub mod Leaving
pub mod New
pub mod Rows
pub mod Slots
pub mod Told
