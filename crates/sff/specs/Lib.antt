pub mod Header
pub mod Read
pub mod Walk
pub mod Judge
pub mod Lookup
pub mod Reads
pub mod Flow
pub mod Private
