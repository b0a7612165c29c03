pub mod Rescaled
pub mod InMetres
pub mod Tiles
