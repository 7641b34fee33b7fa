pub mod Dots
pub mod Faults
pub mod Percent
pub mod Places
