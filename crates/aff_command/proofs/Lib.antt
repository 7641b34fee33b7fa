pub mod Shown
pub mod FourWords
pub mod FolderWords
pub mod NoMachine
