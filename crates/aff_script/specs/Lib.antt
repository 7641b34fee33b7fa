pub mod Answered
pub mod Line
pub mod Reading
pub mod Refused
pub mod Script
pub mod Split
