pub mod Vertices
pub mod Headers
pub mod Coding
pub mod Seeing
pub mod Seams
pub mod Good
pub mod Tiles
