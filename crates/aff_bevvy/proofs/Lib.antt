mod ChunkPoints
mod Closing
mod FirstFaults
mod Growing
mod Lengths
mod Listing
mod Opening
mod Parts
pub mod Sorted
