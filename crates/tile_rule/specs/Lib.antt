pub mod Tile
pub mod Seen
pub mod Seams
pub mod GoodTile
pub mod Laws
