pub mod Element
pub mod Numbers
pub mod Text
pub mod Answers
