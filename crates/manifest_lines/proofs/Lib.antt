pub mod Ascending
pub mod Fronts
pub mod Heads
pub mod Lines
pub mod Readers
pub mod RowLists
pub mod Versions
