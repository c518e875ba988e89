pub mod Carrying
pub mod Moved
pub mod Stepping
pub mod Writing
