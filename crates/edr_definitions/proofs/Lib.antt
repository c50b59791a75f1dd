mod VectorPulses
mod VectorsWindows
mod VectorsSelection
mod VectorsChain
mod VectorsParts
mod VectorsCommands
mod VectorsChange
mod VectorsCore
mod VectorsSchedule
pub mod TickLaws
pub mod WindowLaws
pub mod SelectionLaws
pub mod FactLaws
pub mod ChainLaws
pub mod AgreeLaws
pub mod SampleLaws
pub mod SumLaws
pub mod SlotLaws
pub mod LockLaws
pub mod EventLaws
pub mod CommandLaws
pub mod GrowLaws
pub mod RoundLaws
pub mod PartLaws
pub mod IssueLaws
pub mod LaterLaws
pub mod WithinLaws
pub mod PlaceLaws
pub mod OrderLaws
pub mod BoundLaws
pub mod SearchLaws
pub mod StandingLaws
pub mod TickChangeLaws
pub mod ToldLaws
pub mod TestLaws
pub mod UniqueLaws
pub mod CrashLaws
pub mod RingLaws
pub mod MarkLaws
pub mod ScheduleLaws
pub mod NewLaws
pub mod CoreLaws
pub mod KeepLaws
pub mod OpenLaws
pub mod WholeLaws
pub mod FreezeLaws
