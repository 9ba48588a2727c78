pub mod Views
pub mod Next
pub mod Standing
pub mod Records
pub mod Framing
pub mod Cuts
pub mod Whole
pub mod InputReading
