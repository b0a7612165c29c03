pub mod Angle
pub mod Bounds
pub mod Branches
pub mod Enclosures
pub mod Series
pub mod Sizes
