pub mod Check
pub mod Done
pub mod Listing
pub mod Refusal
pub mod Tile
pub mod Trial
