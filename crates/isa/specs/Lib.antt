pub mod Distances
pub mod Instructions
pub mod Kinds
pub mod Opcodes
pub mod Scales
pub mod Words
