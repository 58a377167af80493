pub mod Places
pub mod Received
