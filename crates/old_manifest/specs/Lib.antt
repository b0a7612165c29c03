pub mod Rows
pub mod Manifest
pub mod OldRows
