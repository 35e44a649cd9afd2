pub mod Reads
pub mod Seen
pub mod Leaves
