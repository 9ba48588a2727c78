pub mod Keyed
pub mod Places
pub mod Choices
pub mod Said
pub mod Elsewhere
pub mod Elems
