pub mod Enclosing
pub mod GridLines
pub mod Ends
pub mod Radii
pub mod Sizes
pub mod SmallBoxes
pub mod Turns
