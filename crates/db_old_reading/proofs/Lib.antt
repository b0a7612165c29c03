pub mod KeptNames
pub mod OldStates
pub mod OldOpenings
pub mod OldRowsRead
pub mod OldFound
