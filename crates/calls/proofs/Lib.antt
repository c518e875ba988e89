pub mod HandedBack
pub mod Kept
pub mod Readings
