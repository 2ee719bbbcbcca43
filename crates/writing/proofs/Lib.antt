pub mod Over
pub mod Pieces
pub mod Digits
pub mod Begun
pub mod Words
