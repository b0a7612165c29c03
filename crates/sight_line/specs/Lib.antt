pub mod Sight
pub mod Line
pub mod Hidden
pub mod Answer
pub mod Seen
