pub mod Tables
pub mod Held
pub mod Stands
pub mod Numbers
pub mod FinalFib
pub mod Parts
pub mod Staged
