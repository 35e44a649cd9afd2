-- A string of a trace as it is shown. Definitions only; what is true of them stands in proofs/.
pub mod Escape
pub mod Promised
