pub mod Core
pub mod Devices
pub mod Ends
pub mod Examinations
pub mod Examiners
pub mod Laws
pub mod Sessions
pub mod Tasks
