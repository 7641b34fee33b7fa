pub mod Damage
pub mod Examiners
pub mod Laws
pub mod Reported
pub mod Runs
pub mod Sessions
pub mod Small
pub mod Words
