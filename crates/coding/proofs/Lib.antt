pub mod Register
pub mod Divided
