mod Lanes
pub mod Messages
mod Padding
mod Digests
mod Copied
mod Sums
mod Groups
mod Hasher
