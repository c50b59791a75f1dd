pub mod Branches
pub mod Compared
pub mod Judged
pub mod Steps
pub mod Tail
pub mod Told
pub mod Verdicts
pub mod Walk
