-- The decoding rules, in reading order. Definitions only: what is true of them stands in `facts` and `promises`.
-- A sentence in quotes is document 01's, with the heading that it stands under; "000" and a number name a section of the standard.
pub mod Limits
pub mod Place
pub mod Bits
pub mod Leb128
pub mod Clock
pub mod Text
pub mod Slots
pub mod Class
pub mod Record
pub mod Faults
pub mod Homes
pub mod Table
pub mod Parse
pub mod Entry
pub mod Verdict
pub mod Step
pub mod Field
pub mod Packet
pub mod Read
pub mod Opened
pub mod Edition
pub mod Lists
pub mod Bundle
