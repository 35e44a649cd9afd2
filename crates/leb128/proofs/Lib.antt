mod FirstNine
mod Tenth
pub mod Settled
pub mod ValueSays
