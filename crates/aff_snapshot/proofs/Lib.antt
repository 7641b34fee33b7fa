pub mod Beginnings
pub mod Once
pub mod Plans
pub mod Names
pub mod Steps
pub mod Seeing
pub mod Joining
pub mod Zeros
