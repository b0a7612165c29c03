pub mod Expressions
pub mod NormalForm
pub mod Signs
