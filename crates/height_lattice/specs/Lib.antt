pub mod HeightCode
pub mod HeightFrame
pub mod Laws
