pub mod OneLift
pub mod Turns
pub mod Way
