mod ByKind
mod Due
pub mod Leaves
mod Reading
