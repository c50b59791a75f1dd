pub mod Stages
pub mod Sums
pub mod Latest
pub mod Standing
pub mod Rows
pub mod Detected
