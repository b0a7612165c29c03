pub mod Sizes
pub mod Clearings
pub mod Sights
pub mod Unders
pub mod Blocks
pub mod Views
pub mod Lists
pub mod Cuts
