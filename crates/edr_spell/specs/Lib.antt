pub mod Rows
pub mod Samples
pub mod Spell
pub mod Fault
pub mod Lines
pub mod Steps
