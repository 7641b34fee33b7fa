pub mod Answered
pub mod Faults
pub mod Findings
pub mod InfoText
pub mod Laws
pub mod Outcomes
pub mod Refusals
pub mod Written
