pub mod Law
pub mod Simple
pub mod All
pub mod Triple
pub mod Places
pub mod Between
pub mod Moved
pub mod Sound
mod SlotIn
pub mod Accepted
pub mod Numbering
mod SetKept
pub mod Kept
pub mod Two
pub mod Far
pub mod Agree
pub mod Pair
