pub mod Steps
pub mod StorageMemory
pub mod StorageSharing
pub mod StorageThreads
pub mod Phasing
pub mod SlotLemmas
pub mod NextLemmas
mod Cited
