pub mod Recurrences
pub mod Sequences
pub mod Solving
pub mod Steps
