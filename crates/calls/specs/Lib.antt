pub mod Ulms
pub mod Calls
pub mod Laws
pub mod Posts
