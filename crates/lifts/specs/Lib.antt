pub mod Bytes
pub mod Carried
pub mod Lifting
pub mod Numbers
