pub mod Limits
pub mod Pages
pub mod Trays
