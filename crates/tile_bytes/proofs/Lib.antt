pub mod Edges
pub mod Facts
pub mod Frames
pub mod Headers
pub mod Lines
pub mod Points
pub mod Steps
