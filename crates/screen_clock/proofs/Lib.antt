pub mod Walked
pub mod Found
pub mod Clocks
pub mod FrequencyNamed
