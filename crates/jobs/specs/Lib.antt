pub mod States
pub mod Replayed
