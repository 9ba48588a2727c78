pub mod Field
pub mod Gives
