pub mod Order
pub mod Back
pub mod Trip
pub mod Refused
