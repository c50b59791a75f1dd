pub mod Accepted
pub mod Slots
pub mod Rings
pub mod Seat
pub mod Offer
pub mod SlowContents
pub mod Slow
