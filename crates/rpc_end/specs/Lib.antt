pub mod Texts
pub mod Stands
pub mod Arrivals
pub mod Replies
pub mod Ends
pub mod Sound
pub mod Calls
pub mod Heeding
