pub mod Places
pub mod Masks
pub mod Samples
pub mod Texts
pub mod Numbers
pub mod ReadBack
