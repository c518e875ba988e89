pub mod Entries
pub mod Numbers
pub mod Promises
