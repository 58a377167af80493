pub mod Zeros
pub mod Differ
pub mod Apart
