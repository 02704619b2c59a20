pub mod Verdicts
pub mod Machines
pub mod Made
pub mod Texts
