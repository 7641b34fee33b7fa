pub mod Codes
pub mod Answering
pub mod RunEnds
pub mod Said
