pub mod Decimal
pub mod Laid
pub mod Tokens
pub mod Printed
pub mod Apart
