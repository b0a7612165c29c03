pub mod Places
pub mod OneRatio
pub mod Ascending
pub mod OneField
pub mod OneProfile
pub mod OneSight
pub mod OneAnswer
pub mod Spots
