pub mod Keeps
pub mod Loads
pub mod Puts
