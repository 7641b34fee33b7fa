pub mod Codes
pub mod Lists
pub mod Log
pub mod Numbers
pub mod Sights
pub mod Sound
