mod Marking
pub mod Entries
pub mod Named
