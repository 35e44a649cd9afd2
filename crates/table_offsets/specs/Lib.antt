pub mod Bodies
pub mod Check
pub mod Earlier
pub mod Faults
pub mod Walks
