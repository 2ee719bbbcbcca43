pub mod Entry
pub mod List
pub mod Opened
pub mod File
