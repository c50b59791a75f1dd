pub mod Reached
pub mod Replayed
pub mod Phases
pub mod Past
pub mod Live
