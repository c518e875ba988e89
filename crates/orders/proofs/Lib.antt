pub mod RowExact
pub mod Rows
