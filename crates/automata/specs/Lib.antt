pub mod Automata
pub mod Rules
pub mod Atoms
pub mod Layers
pub mod Numbering
pub mod Examples
pub mod EqualTracks
