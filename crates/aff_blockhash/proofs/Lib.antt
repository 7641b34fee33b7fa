pub mod BevvyByBevvy
pub mod Comparing
pub mod Joined
