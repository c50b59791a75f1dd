pub mod NewFrontLemmas
pub mod PartPlaceLemmas
pub mod ReadableLemmas
