pub mod Due
pub mod Gives
pub mod Passes
pub mod Views
pub mod Texts
