mod Rounds
pub mod Sets
