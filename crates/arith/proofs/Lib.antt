pub mod Shifts
pub mod Values
