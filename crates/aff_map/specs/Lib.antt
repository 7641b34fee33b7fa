pub mod Building
pub mod Mappable
pub mod Symbol
pub mod Turns
pub mod Targets
pub mod Mapped
pub mod Refusals
pub mod Finding
