pub mod Looked
mod Lefts
mod Bodies
mod Dues
pub mod Turned
