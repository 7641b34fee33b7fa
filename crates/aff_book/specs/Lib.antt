pub mod Answers
pub mod Codes
pub mod Pages
pub mod Rule
