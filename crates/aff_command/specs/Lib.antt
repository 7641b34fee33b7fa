pub mod CommandLine
pub mod Devices
pub mod Finished
pub mod Refusals
pub mod Wanted
