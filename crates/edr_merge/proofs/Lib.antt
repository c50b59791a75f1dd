pub mod LagLemmas
pub mod WaitingLemmas
pub mod StandsLemmas
pub mod StillLemmas
pub mod SoundLemmas
pub mod OldestLemmas
