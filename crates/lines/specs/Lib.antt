pub mod Lines
pub mod Names
pub mod Pieces
pub mod Reading
pub mod Texts
