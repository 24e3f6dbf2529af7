pub mod Walks
pub mod Sending
pub mod Lent
pub mod Endings
pub mod Made
