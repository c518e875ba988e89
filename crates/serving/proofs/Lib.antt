pub mod Bringing
pub mod Servings
