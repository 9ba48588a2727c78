pub mod Packed
pub mod Proved
pub mod Tables
