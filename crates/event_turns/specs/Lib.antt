pub mod Roots
pub mod Ready
pub mod Event
pub mod Left
pub mod Turns
