pub mod Evented
mod Ending
mod Rounds
