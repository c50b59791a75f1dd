pub mod Numbers
pub mod Readable
pub mod Writes
