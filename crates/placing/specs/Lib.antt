pub mod Left
pub mod Placed
