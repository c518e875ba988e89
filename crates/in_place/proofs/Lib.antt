pub mod AllBelow
pub mod InPlace
