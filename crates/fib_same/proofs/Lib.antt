pub mod Reading
pub mod Going
pub mod Nearer
pub mod Finding
pub mod Whole
pub mod Told
pub mod Found
