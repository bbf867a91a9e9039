pub mod Turns
pub mod Outcomes
