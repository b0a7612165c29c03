pub mod Post
pub mod Grid
pub mod Header
pub mod Record
pub mod Cell
pub mod Mix
pub mod Generate
pub mod Landscape
