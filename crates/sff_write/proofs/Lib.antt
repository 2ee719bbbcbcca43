pub mod Back
pub mod Refused
