pub mod Sets
pub mod Least
pub mod Tracks
pub mod Gatherings
pub mod Folds
pub mod Steps
pub mod Made
