pub mod Repetition
pub mod Wordless
pub mod Shown
pub mod Majority
