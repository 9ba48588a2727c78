pub mod Due
pub mod Asking
pub mod Checked
pub mod Views
pub mod Judged
pub mod Said
pub mod SaidViews
pub mod Steps
