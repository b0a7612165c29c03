pub mod CellRows
pub mod EditReads
pub mod EditTroubles
pub mod EditsEnd
pub mod Passing
pub mod RowLists
pub mod Settles
pub mod Starts
