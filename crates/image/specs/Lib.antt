pub mod Coding
pub mod Image
pub mod Numbers
pub mod Promises
pub mod Reading
pub mod Writing
