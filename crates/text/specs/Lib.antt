pub mod Encoding
pub mod Number
pub mod Reading
