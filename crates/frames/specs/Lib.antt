pub mod Carrying
pub mod Theorems
