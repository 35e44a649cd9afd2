-- The frequency of a stream class's clock, and what is promised of it. Definitions only; what is true of them stands in proofs/.
pub mod Frequency
pub mod Named
