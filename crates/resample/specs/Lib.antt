pub mod Block
pub mod Height
pub mod HeightLaws
pub mod Line
