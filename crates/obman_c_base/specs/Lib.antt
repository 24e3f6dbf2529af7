pub mod Allowed
pub mod Made
pub mod Owned
pub mod Owning
pub mod Lending
