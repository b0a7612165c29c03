pub mod ManifestReads
pub mod RowReads
