pub mod Signs
mod Lengths
