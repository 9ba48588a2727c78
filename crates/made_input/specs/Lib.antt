pub mod Views
pub mod Draws
pub mod Drawn
pub mod Files
