pub mod Halves
pub mod Bits
pub mod Neighbours
pub mod Rising
pub mod WholeEdges
