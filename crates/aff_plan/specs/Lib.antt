pub mod Line
pub mod Order
pub mod Reading
pub mod Refused
pub mod Text
