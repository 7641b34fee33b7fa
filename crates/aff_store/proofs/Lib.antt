mod Chosen
mod Closings
mod Cuts
mod FirstPlaces
mod Joining
mod Placings
pub mod Readings
mod Steps
