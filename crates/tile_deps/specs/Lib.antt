pub mod Laws
pub mod Squares
pub mod Tiles
pub mod Walk
