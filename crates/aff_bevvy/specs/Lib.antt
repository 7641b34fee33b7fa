pub mod Checks
pub mod Chunks
pub mod Errors
pub mod Faults
pub mod Laws
pub mod Segments
pub mod Streams
pub mod Written
