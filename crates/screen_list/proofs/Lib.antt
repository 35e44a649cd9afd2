pub mod Parts
pub mod Pieces
pub mod Entries
pub mod Fills
pub mod Written
pub mod Figures
