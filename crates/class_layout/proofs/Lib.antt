pub mod Records
pub mod Numbers
pub mod NextRecord
pub mod Named
pub mod Setting
mod ClassRecords
pub mod Sound
mod Stands
pub mod Announced
pub mod Standing
pub mod Fields
pub mod One
pub mod Depths
pub mod Split
pub mod InPlace
pub mod Aligned
mod Ends
pub mod Rooted
mod Once
pub mod Asked
pub mod Lookups
pub mod Turns
pub mod Numbered
pub mod NumberedReads
pub mod RootNumbers
mod NotedWords
mod NumbersNoted
mod Noted
pub mod Reached
pub mod Written
pub mod Walked
