pub mod InStream
