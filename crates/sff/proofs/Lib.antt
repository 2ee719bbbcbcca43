pub mod Reach
pub mod Refused
pub mod NoIndex
pub mod Passages
