pub mod Disk
pub mod Kept
pub mod Outcomes
pub mod Seen
