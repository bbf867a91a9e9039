pub mod Clips
pub mod Guesses
pub mod Lengths
pub mod Numbers
pub mod Parts
pub mod Searches
