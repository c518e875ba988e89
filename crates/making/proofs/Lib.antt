pub mod Making
pub mod Shifted
