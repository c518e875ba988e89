pub mod Pairs
pub mod Rules
pub mod Tests
