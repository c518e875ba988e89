pub mod UncoverAnswers
