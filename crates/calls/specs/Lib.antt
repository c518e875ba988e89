pub mod HandedBack
pub mod Shared
