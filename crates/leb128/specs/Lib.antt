pub mod Answer
pub mod FirstNine
