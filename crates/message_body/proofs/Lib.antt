pub mod Readings
pub mod Spellings
pub mod Lengths
pub mod Sizes
pub mod Within
pub mod Values
pub mod Norms
pub mod Again
mod Worked
