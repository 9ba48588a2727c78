pub mod Events
pub mod Choice
