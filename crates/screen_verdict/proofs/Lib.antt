pub mod Sentences
pub mod Lines
pub mod Digits
pub mod Semicolons
pub mod ResultTold
pub mod Figures
pub mod StatusTold
pub mod VerdictSafe
