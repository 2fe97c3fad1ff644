pub mod Streams
pub mod Words
pub mod Outcome
pub mod StatusText
