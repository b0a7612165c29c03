pub mod MovedNames
pub mod CellMoves
pub mod Bringing
