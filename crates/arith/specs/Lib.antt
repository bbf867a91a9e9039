pub mod Flags
pub mod Values
pub mod Whole
pub mod Widths
