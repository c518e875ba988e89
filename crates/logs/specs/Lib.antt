pub mod Following
pub mod Numbers
pub mod Promises
pub mod Whole
