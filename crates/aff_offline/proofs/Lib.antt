pub mod Endings
pub mod Wholes
