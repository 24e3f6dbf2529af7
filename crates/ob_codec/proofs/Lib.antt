pub mod AtPlace
pub mod Loop
pub mod SealLaws
pub mod SavingLaws
