pub mod Answer
pub mod Cells
pub mod Commands
pub mod Laws
pub mod Opening
pub mod Reading
pub mod State
pub mod Verdict
