pub mod Discovery
pub mod Refinement
pub mod Imaging
pub mod Building
