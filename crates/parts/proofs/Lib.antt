pub mod ByNumber
pub mod PartLaws
pub mod Tabulated
