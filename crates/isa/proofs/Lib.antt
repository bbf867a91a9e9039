pub mod Codes
pub mod Trips
