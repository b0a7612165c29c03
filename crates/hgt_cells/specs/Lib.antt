pub mod Name
pub mod Sample
pub mod File
pub mod Refusal
pub mod Cell
pub mod Text
pub mod Laws
