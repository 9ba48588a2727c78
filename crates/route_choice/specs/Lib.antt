pub mod Paths
pub mod Walks
pub mod Kept
pub mod Space
pub mod Held
