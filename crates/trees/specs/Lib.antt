pub mod Shapes
pub mod Refusals
pub mod Trees
pub mod Nodes
pub mod Reading
pub mod Stacks
pub mod Parts
pub mod Laws
