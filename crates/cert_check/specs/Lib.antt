pub mod Runs
pub mod Apart
pub mod Marks
pub mod Stack
pub mod Views
