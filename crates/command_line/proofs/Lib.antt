pub mod AskLemmas
pub mod CommandLemmas
pub mod LevelFacts
pub mod MatchLemmas
pub mod RowFacts
pub mod TakenLemmas
pub mod WalkFacts
