pub mod ItemContents
pub mod Item
pub mod Entry
pub mod File
pub mod Write
pub mod Private
