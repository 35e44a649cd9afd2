mod Streams
mod Answers
