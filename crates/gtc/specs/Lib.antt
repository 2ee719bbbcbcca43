pub mod Table
pub mod Entry
pub mod Item
pub mod Judge
pub mod Lookup
pub mod Answers
