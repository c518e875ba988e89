pub mod AllShafts
pub mod RowLaws
pub mod SetLaws
