pub mod Views
pub mod Adds
pub mod AddsUpdate
pub mod UpdateViews
