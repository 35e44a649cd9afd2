mod Found
pub mod Lies
