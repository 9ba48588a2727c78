pub mod Taking
pub mod Saving
