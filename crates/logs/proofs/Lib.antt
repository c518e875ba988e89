pub mod Ends
pub mod Exact
pub mod Following
pub mod Replayed
pub mod Runs
pub mod Tracing
pub mod Whole
