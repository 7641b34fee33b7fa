pub mod Endings
pub mod FirstPlaces
pub mod Fitting
pub mod Outcome
pub mod Segmentless
