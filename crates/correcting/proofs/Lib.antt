pub mod Fronts
pub mod SoFar
pub mod Telling
pub mod Written
