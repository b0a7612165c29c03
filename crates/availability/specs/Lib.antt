pub mod Count
pub mod Crossing
pub mod Existence
pub mod Layer
pub mod LayerData
pub mod Laws
pub mod Merge
pub mod Runs
