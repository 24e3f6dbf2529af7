pub mod Phases
pub mod Slots
pub mod Memory
pub mod StorageLends
pub mod Arena
pub mod ArenaLends
