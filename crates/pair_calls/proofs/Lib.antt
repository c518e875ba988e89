pub mod CallAnswers
pub mod CallExact
