pub mod Draws
pub mod Cycles
pub mod Texts
pub mod Traces
