pub mod Views
pub mod Rows
pub mod Writing
pub mod Sections
pub mod SectionRows
pub mod HopTexts
