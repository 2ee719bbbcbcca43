pub mod Reach
pub mod Refused
pub mod Passing
pub mod TagOrder
