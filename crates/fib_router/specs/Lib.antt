pub mod Errors
pub mod Lives
pub mod Router
