pub mod Halving
pub mod Rows
pub mod TagCmp
pub mod Reach
pub mod Refused
