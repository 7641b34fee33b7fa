pub mod Answers
pub mod Bytes
pub mod Faults
pub mod Raised
pub mod Reads
pub mod Seen
pub mod Values
