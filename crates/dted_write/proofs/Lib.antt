pub mod Headers
pub mod Knots
pub mod Labels
pub mod Law
pub mod Landscapes
pub mod Records
pub mod Texts
pub mod Written
