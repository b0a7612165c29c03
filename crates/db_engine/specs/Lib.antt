pub mod Edited
pub mod Holding
pub mod Opened
pub mod Rows
pub mod Settling
pub mod Stored
