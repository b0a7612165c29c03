pub mod Laws
pub mod Tiles
pub mod Verdict
