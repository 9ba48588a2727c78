pub mod Rows
pub mod Right
pub mod Verdict
pub mod Renamed
pub mod Taken
pub mod Views
pub mod PackedViews
