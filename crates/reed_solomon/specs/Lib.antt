pub mod Numbers
pub mod Words
pub mod Disc
pub mod Lines
pub mod Theorems
pub mod Received
