pub mod Appends
pub mod Indexes
pub mod Puts
pub mod Sectors
pub mod Shelves
pub mod Taken
pub mod Worn
