pub mod Asking
pub mod Passing
pub mod Found
pub mod Judging
pub mod Numbers
pub mod Reading
