pub mod Numbers
pub mod PointLaws
pub mod EntryLaws
