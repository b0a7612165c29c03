pub mod Format
pub mod Binary32
pub mod Binary64
pub mod Laws
