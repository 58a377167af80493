pub mod Rows
pub mod Places
pub mod Views
pub mod Lines
pub mod Nearest
