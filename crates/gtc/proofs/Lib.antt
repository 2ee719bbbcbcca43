pub mod Reach
pub mod Arrays
pub mod Refused
