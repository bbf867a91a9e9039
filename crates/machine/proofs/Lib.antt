pub mod Answering
pub mod Trying
