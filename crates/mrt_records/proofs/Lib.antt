pub mod Refusing
pub mod Adding
