pub mod EventLaws
pub mod EventLists
pub mod Kept
pub mod KindLists
pub mod RunLists
pub mod Standings
pub mod Tracks
