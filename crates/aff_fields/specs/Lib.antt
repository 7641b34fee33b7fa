pub mod Entry
pub mod Point
pub mod Refused
