pub mod Arriving
pub mod Playing
