pub mod Bits
pub mod Levels
pub mod Spare
pub mod Taken
pub mod From
pub mod Best
pub mod Dues
pub mod Padded
