pub mod Heights
pub mod Names
