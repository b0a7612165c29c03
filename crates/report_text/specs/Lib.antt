pub mod Cell
pub mod Finding
pub mod Refusal
pub mod Tile
pub mod TileRefusal
pub mod Words
