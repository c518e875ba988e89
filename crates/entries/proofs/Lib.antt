pub mod Comparing
pub mod Following
pub mod Numbered
