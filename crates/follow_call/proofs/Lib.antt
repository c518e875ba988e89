pub mod FollowAnswers
