pub mod Generated
pub mod Sequence
pub mod Step
pub mod Trial
