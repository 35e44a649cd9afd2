-- The verdict's line and the exit status, for a table and for a reading, and the numbers told again. Definitions only; what is true of
-- them stands in proofs/.
pub mod Sentences
pub mod Verdict
pub mod Told
