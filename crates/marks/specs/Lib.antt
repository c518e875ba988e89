pub mod Cassettes
pub mod Marking
pub mod Taking
