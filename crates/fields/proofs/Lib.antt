pub mod Peasant
pub mod Powers
pub mod Reduction
