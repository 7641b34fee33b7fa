pub mod Gathered
pub mod Pieces
pub mod Runs
pub mod Volumes
