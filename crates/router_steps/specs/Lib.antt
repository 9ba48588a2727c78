pub mod World
pub mod Stepping
pub mod Paused
pub mod Calls
pub mod Engine
pub mod Upcoming
pub mod Runs
pub mod Hops
