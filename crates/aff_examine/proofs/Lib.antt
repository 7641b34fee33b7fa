mod Counts
mod Folding
mod Gathering
mod Goings
pub mod Histories
mod Showing
mod Texts
