pub mod Kept
pub mod OldReads
pub mod OldOpening
pub mod Told
pub mod Laws
