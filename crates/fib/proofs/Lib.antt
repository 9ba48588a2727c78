pub mod Ending
pub mod Taken
