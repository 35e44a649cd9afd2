pub mod Moving
mod Rounding
