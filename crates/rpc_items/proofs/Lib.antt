pub mod Numbered
pub mod SameIds
pub mod Stable
pub mod Resting
pub mod Answering
pub mod Paging
pub mod Drawing
pub mod Fitting
pub mod Settling
pub mod Reported
pub mod Undrawn
mod Worked
mod WorkedExtensions
mod WorkedMessages
mod WorkedRefusals
pub mod Understanding
pub mod Reading
pub mod Writing
