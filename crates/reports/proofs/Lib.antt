pub mod BlockLemmas
pub mod HundredLemmas
pub mod LineLemmas
pub mod PieceLemmas
pub mod RowLemmas
pub mod TableLemmas
