pub mod PartLemmas
pub mod FiringLemmas
pub mod BoundLemmas
pub mod HistoryLemmas
