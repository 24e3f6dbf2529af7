pub mod Journal
pub mod Lanes
pub mod Closing
pub mod Comparing
pub mod Members
