pub mod Checks
pub mod Exactness
pub mod Looked
pub mod Passing
pub mod TileNames
