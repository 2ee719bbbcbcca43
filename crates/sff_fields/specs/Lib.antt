pub mod Padding
pub mod Header
pub mod Read
pub mod Clips
pub mod Contents
pub mod Parts
