pub mod Rows
pub mod Picked
pub mod Sound
pub mod Places
pub mod Searched
pub mod Ordered
pub mod Walked
pub mod Descent
pub mod Ends
pub mod Told
pub mod FragmentOpens
pub mod Rounds
pub mod Begun
pub mod TieTests
pub mod TieBytes
pub mod TieKinds
pub mod TieHead
mod TieIds
mod TieOrder
mod TieWalk
mod TieSays
mod TieClass
mod TieRanges
mod TieOptions
mod TieClasses
mod TieRoots
mod TieFragments
pub mod TieCheck
pub mod Earlier
