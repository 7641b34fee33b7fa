pub mod Faults
pub mod Folds
pub mod Following
pub mod Histories
pub mod Laws
pub mod Reading
pub mod Sights
pub mod Tallies
