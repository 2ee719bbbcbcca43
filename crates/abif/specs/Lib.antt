pub mod Entry
pub mod Tag
pub mod Directory
pub mod Judge
pub mod Lookup
pub mod Answers
pub mod Private
