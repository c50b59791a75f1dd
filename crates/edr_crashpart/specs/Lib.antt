pub mod Fields
pub mod Bounds
pub mod History
