pub mod Words
pub mod Columns
pub mod HeadTold
pub mod EachKind
pub mod HeadPrinted
