pub mod Ranges
pub mod Holding
pub mod Settling
pub mod Stepping
pub mod Parts
