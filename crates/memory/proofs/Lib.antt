pub mod Borders
pub mod Lenders
pub mod Stretches
