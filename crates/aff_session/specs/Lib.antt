pub mod Answers
pub mod Asked
pub mod Faults
pub mod Laws
pub mod Lines
pub mod Looking
pub mod Shown
pub mod Sittings
