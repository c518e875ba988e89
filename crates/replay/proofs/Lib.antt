pub mod Carries
pub mod Ends
pub mod Exact
pub mod Playing
pub mod Replays
pub mod Times
