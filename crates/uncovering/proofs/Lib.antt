pub mod Absent
pub mod Cleared
pub mod Covered
pub mod Exact
pub mod Nearest
pub mod Rule
pub mod TopRow
