pub mod Nested
pub mod Refused
pub mod Kept
pub mod Checked
