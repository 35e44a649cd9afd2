pub mod Checks
pub mod Marks
pub mod Parts
pub mod Roles
