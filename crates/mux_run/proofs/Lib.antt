pub mod Cuts
pub mod WholeFrames
pub mod Growing
pub mod Between
pub mod Links
pub mod Moments
pub mod Safety
pub mod Ended
pub mod Fed
pub mod Streams
mod Worked
