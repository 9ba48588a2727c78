pub mod Entries
mod Joined
pub mod Kept
pub mod Loops
mod Proper
pub mod Sections
