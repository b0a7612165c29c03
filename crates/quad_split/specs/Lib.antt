pub mod Node
pub mod Fan
pub mod Fits
pub mod Window
pub mod Split
pub mod SplitMap
pub mod Midpoints
pub mod Laws
