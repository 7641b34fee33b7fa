pub mod Digest
pub mod Linear
pub mod Chosen
