pub mod BarrierLemmas
pub mod EndingLemmas
pub mod OutcomeLemmas
pub mod ImageLemmas
pub mod RunLaws
pub mod PastLemmas
pub mod ReplayLemmas
pub mod CompletenessLemmas
pub mod DriveLemmas
pub mod LiveLemmas
pub mod DispatchLemmas
pub mod TakingLemmas
pub mod MigrationLemmas
pub mod DialogLemmas
pub mod PieceLemmas
pub mod AgreedLaws
pub mod AuditedLemmas
mod FaultVectors
