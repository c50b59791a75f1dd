pub mod SpacedLemmas
pub mod PrintedLemmas
pub mod FoundLemmas
mod Vectors
