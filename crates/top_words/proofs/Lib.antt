pub mod Items
pub mod Numbers
pub mod Same
pub mod Scripts
pub mod Surfaces
