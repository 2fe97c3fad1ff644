pub mod Credit
pub mod Runs
