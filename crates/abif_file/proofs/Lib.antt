pub mod Reach
pub mod Refused
pub mod opened
