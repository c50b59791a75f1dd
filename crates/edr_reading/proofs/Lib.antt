pub mod ValueLemmas
pub mod EventLemmas
pub mod SlotLemmas
pub mod WholeLemmas
pub mod FaultLemmas
pub mod TableLemmas
pub mod BetweenLemmas
pub mod ReadLemmas
