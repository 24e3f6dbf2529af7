pub mod Effects
pub mod Periods
