pub mod Codes
pub mod Table
pub mod Replies
pub mod Stands
