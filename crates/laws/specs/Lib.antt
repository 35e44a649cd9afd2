pub mod All
pub mod Between
pub mod Kept
pub mod Far
pub mod Owner
