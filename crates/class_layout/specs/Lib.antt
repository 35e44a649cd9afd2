pub mod Numbers
pub mod Trees
pub mod Fragments
pub mod Sizes
pub mod Words
pub mod Notes
pub mod Fields
