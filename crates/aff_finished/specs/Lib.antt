pub mod Content
pub mod Left
pub mod Laws
