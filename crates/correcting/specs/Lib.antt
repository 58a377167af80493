pub mod Corrections
pub mod Correcting
