pub mod Reach
pub mod Refused
