pub mod Readings
pub mod Writings
pub mod ReadsBack
pub mod TextLemmas
pub mod Shown
pub mod NormLemmas
pub mod LastLemmas
