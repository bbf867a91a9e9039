pub mod Faults
pub mod Stores
pub mod Transfers
