pub mod FarPoint
pub mod Horizon
pub mod Hull
pub mod Laws
pub mod Reach
pub mod Sphere
