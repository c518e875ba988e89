pub mod FollowCall
