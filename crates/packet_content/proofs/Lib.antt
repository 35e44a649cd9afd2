mod StreamClass
pub mod Lengths
mod Running
