pub mod Lanes
pub mod Messages
pub mod Groups
pub mod Hasher
