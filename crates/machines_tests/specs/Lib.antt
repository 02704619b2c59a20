pub mod Parities
pub mod Instances
