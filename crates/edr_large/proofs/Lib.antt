pub mod RowLemmas
pub mod MemoryLemmas
pub mod CountingLemmas
