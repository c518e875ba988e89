pub mod Counting
pub mod Numbers
pub mod Promises
pub mod Replaying
pub mod Same
