pub mod Racks
pub mod Calls
pub mod Log
pub mod Guarantee
pub mod Promises
