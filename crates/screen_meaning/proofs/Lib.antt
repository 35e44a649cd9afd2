pub mod Hexes
pub mod Turns
pub mod Nearest
pub mod Forms
pub mod Figures
pub mod MeantPrinted
