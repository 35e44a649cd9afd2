pub mod Seeing
pub mod Fits
