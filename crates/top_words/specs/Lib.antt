pub mod Arguments
pub mod Meant
pub mod Questions
pub mod Script
pub mod Words
