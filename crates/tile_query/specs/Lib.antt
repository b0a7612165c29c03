pub mod Answer
pub mod Laws
pub mod Question
pub mod Text
