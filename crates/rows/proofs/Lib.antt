pub mod Upward
pub mod Walk
pub mod Walked
