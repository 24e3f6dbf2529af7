pub mod LevelLemmas
pub mod CountLemmas
pub mod SpareLemmas
pub mod TakenLemmas
pub mod NextLemmas
pub mod BestLemmas
pub mod PaddedLemmas
