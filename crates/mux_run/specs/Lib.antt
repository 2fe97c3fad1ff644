pub mod Run
pub mod Moments
pub mod Between
pub mod Linked
pub mod Fed
pub mod Safe
pub mod Spending
