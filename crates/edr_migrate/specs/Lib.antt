pub mod Migrated
pub mod OldImage
pub mod NewBytes
pub mod Causes
