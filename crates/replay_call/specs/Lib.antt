pub mod ReplayCall
