pub mod Laws
pub mod Bytes
mod Parts
pub mod Signed
pub mod Cut
pub mod Standard
