pub mod Least
mod Wrapped
