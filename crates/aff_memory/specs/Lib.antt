pub mod BlockSizes
pub mod Counted
pub mod Fixed
pub mod Flaked
pub mod Shelf
pub mod Texts
