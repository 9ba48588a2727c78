pub mod Alike
pub mod Falling
pub mod Packing
pub mod Proving
pub mod Visiting
