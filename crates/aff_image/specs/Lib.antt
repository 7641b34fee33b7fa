pub mod Asked
pub mod Image
pub mod Laws
pub mod Small
pub mod Sound
pub mod Volume
pub mod Witnesses
