-- The five words of an entry as they are printed, and told again. In reading order. Definitions only; what is true of them stands in
-- proofs/.
pub mod Kinds
pub mod Head
pub mod Shown
pub mod Told
