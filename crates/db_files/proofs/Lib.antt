pub mod Alike
pub mod Closings
pub mod Fillings
pub mod Parts
pub mod RowKeys
pub mod TileSteps
pub mod Troubles
pub mod Yielded
