pub mod Blocks
pub mod Halves
pub mod Parts
pub mod Readings
pub mod Wholes
