pub mod Passing
pub mod Running
pub mod Delivering
pub mod Performing
