pub mod Answers
pub mod Abif
pub mod Sff
pub mod SffWrite
pub mod Gtc
