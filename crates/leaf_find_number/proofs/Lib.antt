pub mod Finds
pub mod Lies
