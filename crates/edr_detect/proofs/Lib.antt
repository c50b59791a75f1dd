pub mod LatestLemmas
pub mod WindowLemmas
pub mod RowLemmas
