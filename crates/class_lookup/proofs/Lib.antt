pub mod Index
pub mod Probes
mod First
