pub mod FifteenFirst
pub mod ListSpace
pub mod PlanAnswers
pub mod PlanExact
