pub mod Accept
pub mod Checking
pub mod Lifts
pub mod Lists
pub mod Numbers
pub mod Promises
pub mod Slots
pub mod Sound
