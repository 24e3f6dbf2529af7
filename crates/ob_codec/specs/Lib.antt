pub mod Reading
pub mod Spelling
pub mod Laws
pub mod Steps
pub mod Codecs
pub mod Sparse
pub mod SparseLaws
pub mod Sealing
