pub mod Lists
pub mod Parted
