mod One
mod Walked
mod Copies
pub mod Leave
