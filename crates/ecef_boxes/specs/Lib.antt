pub mod Bounds
pub mod Box
pub mod Ellipsoid
pub mod Laws
pub mod Lines
