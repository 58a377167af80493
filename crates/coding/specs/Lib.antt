pub mod Coding
pub mod Division
