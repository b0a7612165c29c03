pub mod Degrees
pub mod Neighbour
pub mod Place
pub mod Touch
pub mod Touched
