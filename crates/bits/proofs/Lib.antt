pub mod Bytes
pub mod Cuts
pub mod Places
pub mod Widths
