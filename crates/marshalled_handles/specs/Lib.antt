pub mod Codes
pub mod Replies
pub mod Owner
pub mod Holder
pub mod Both
pub mod Arguments
pub mod Numbers
pub mod Stands
