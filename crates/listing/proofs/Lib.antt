pub mod Sinks
pub mod Lengths
pub mod Takings
pub mod Cells
pub mod Texts
