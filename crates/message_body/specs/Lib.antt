pub mod Found
pub mod Written
pub mod Replies
pub mod AsRead
