pub mod Did
pub mod Roled
