pub mod Lesser
pub mod Opened
pub mod Fields
pub mod Applying
pub mod Opening
pub mod Laying
pub mod Formatting
pub mod Tasks
