pub mod Booleans
pub mod Extremes
pub mod First
pub mod Lists
pub mod Options
pub mod Orders
pub mod Sizes
