pub mod Comes
pub mod EditGoes
pub mod Effects
pub mod LinesGo
pub mod Meant
pub mod Says
pub mod Told
pub mod Turns
