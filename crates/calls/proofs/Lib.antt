pub mod Ideal
pub mod Mirror
pub mod Outcomes
pub mod Makes
pub mod Chains
