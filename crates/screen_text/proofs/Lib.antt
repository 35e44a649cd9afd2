pub mod Texts
pub mod Visible
pub mod Figures
