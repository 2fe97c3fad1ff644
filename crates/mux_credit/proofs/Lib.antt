pub mod Sums
pub mod Next
pub mod Credit
pub mod Quiet
pub mod Runs
mod Worked
