pub mod Brings
pub mod Restores
pub mod Saves
