pub mod Homes
pub mod Told
