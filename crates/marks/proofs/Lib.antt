pub mod Faulted
pub mod MarkLaws
pub mod MarkSets
pub mod Others
pub mod Takes
pub mod Words
