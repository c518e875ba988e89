pub mod Count
pub mod Deciding
pub mod Moves
pub mod Placing
pub mod Run
pub mod TwoStackReading
