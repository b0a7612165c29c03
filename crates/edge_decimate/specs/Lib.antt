pub mod Straight
pub mod KeptPoints
pub mod KeptLine
pub mod Laws
