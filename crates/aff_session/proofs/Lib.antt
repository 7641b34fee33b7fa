mod Demands
pub mod Growing
pub mod Histories
mod Lining
mod Looks
mod Requests
mod Rows
