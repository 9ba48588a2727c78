pub mod Sizes
pub mod Parts
pub mod Way
pub mod Tries
