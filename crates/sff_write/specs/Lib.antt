pub mod Header
pub mod Read
pub mod Write
pub mod Private
