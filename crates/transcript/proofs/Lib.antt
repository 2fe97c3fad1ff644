pub mod Channels
pub mod Emitted
pub mod Joined
pub mod Reported
pub mod Whole
