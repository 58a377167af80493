pub mod Steps
pub mod Promise
pub mod Going
pub mod Parts
