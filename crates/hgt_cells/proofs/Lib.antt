pub mod Parts
pub mod Corners
pub mod Files
pub mod Refusals
pub mod Posts
pub mod CellLaws
