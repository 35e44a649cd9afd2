pub mod Onward
pub mod Sized
pub mod Rising
pub mod Within
pub mod TieHomes
pub mod TieClasses
mod Fewer
pub mod TieFragments
mod OneEnd
