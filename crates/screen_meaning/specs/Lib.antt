-- What an entry's value means, behind its numbers: a bit array's and a BLOB's bytes, a clock's seconds, a float. In reading order.
-- Definitions only; what is true of them stands in proofs/.
pub mod Bytes
pub mod Seconds
pub mod Float
pub mod Meant
