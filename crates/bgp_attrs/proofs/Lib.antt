pub mod Octets
pub mod Four
pub mod Origins
pub mod Judging
pub mod Entries
mod Fields
