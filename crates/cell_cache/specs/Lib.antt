pub mod Cached
pub mod CachedLaws
pub mod Fetched
pub mod Held
pub mod Slot
