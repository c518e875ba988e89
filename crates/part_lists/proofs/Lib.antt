pub mod MakingPart
pub mod Renaming
pub mod RowLists
