pub mod Lines
pub mod More
mod Texts
