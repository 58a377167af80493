pub mod Making
pub mod Recovering
pub mod Lawful
