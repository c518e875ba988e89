pub mod Agree
pub mod Lasting
pub mod OnePlace
pub mod Reachability
pub mod RuleTests
pub mod Sets
