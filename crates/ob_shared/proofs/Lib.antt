pub mod Going
pub mod Journals
pub mod LaneLists
pub mod Numbers
pub mod Parts
pub mod Blocking
