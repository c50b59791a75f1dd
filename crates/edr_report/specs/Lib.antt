pub mod Lines
pub mod Words
pub mod EventWords
pub mod Report
pub mod Printed
pub mod Format
pub mod ImageWords
