pub mod Needs
pub mod Passes
pub mod Ways
pub mod Turns
pub mod Views
pub mod Event
pub mod Found
