pub mod Loading
pub mod Scripted
