pub mod Fault
pub mod Flags
pub mod Rights
pub mod Spelling
pub mod SpellingLaws
