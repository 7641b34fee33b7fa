pub mod Words
pub mod Views
pub mod Demands
pub mod Steps
pub mod Rule
pub mod Ranking
pub mod Values
pub mod Next
