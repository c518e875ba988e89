pub mod ConvertAnswers
pub mod Converted
