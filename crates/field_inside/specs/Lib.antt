pub mod Inside
pub mod Held
pub mod Opening
