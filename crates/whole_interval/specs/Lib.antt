pub mod Fraction
pub mod HalfTurn
pub mod Interval
pub mod Sine
