pub mod Sinks
pub mod Rows
pub mod Listings
