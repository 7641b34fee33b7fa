pub mod Forms
pub mod Lists
pub mod Sessions
pub mod Starts
pub mod Told
pub mod Wrong
