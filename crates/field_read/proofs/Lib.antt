mod Roles
mod Noted
pub mod Round
pub mod Apart
pub mod Told
mod Walks
mod Turns
mod Holds
