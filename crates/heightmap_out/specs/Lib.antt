pub mod Sample
pub mod Mask
pub mod Tile
pub mod View
pub mod Laws
