pub mod Nearest
pub mod Numbers
pub mod Promises
pub mod Uncovering
