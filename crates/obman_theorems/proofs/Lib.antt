pub mod RefusalLaws
pub mod Rest
pub mod Choices
pub mod PinLaws
pub mod Histories
pub mod Running
pub mod Saving
pub mod Recorded
