pub mod Comparing
pub mod Reading
pub mod RouterText
pub mod Saving
