pub mod ReplayAnswers
