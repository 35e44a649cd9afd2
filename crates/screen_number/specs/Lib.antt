-- Texts, numbers as text, and columns, as lists of bytes; and which text is safe to show. Definitions only; what is true of them stands in
-- proofs/.
pub mod Number
pub mod Back
pub mod Safe
