-- An entry's line, whole and in pieces, and what is promised of it. In reading order. Definitions only; what is true of them stands in
-- proofs/.
pub mod Line
pub mod Pieces
pub mod Sorts
pub mod Room
pub mod Promised
