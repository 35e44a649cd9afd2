-- All lines of a list, what of them is still to come, and what a call writes. In reading order. Definitions only; what is true of them
-- stands in proofs/.
pub mod Lines
pub mod Rest
pub mod Fill
pub mod Promised
