pub mod Bits
pub mod Apart
pub mod Holdings
pub mod Steps
pub mod ReaderSteps
pub mod KeeperSteps
pub mod Reseated
pub mod Losing
pub mod Calls
pub mod Locking
pub mod LawOfSteps
pub mod Stepping
pub mod Fieldless
pub mod Owned
pub mod Showing
mod Cited
