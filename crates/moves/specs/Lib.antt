pub mod Put
pub mod Went
pub mod Written
