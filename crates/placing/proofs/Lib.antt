pub mod Leaving
pub mod Underway
