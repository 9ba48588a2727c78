pub mod Comparing
pub mod Reads
pub mod Saving
