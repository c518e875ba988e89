pub mod PartLists
