pub mod Ticked
pub mod Least
