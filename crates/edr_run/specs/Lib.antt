pub mod Cycle
pub mod Own
pub mod Logged
pub mod Schedule
pub mod Keeps
pub mod Live
