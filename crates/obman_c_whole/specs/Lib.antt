pub mod Handing
pub mod Savestates
pub mod Scripts
