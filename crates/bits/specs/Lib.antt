pub mod Joined
pub mod Standard
