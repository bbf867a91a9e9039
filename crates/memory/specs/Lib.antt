pub mod Cells
pub mod Laws
pub mod Refusals
pub mod Sides
pub mod Slices
