pub mod Unread
pub mod Holds
pub mod Answers
pub mod Reads
