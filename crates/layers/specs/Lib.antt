pub mod Complement
pub mod Fitted
pub mod Product
pub mod Sets
pub mod Projection
