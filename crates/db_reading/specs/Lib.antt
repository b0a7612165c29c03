pub mod Found
pub mod ReadManifest
pub mod ReadRow
