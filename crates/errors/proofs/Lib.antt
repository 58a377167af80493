pub mod Listed
pub mod Patched
pub mod Horner
pub mod Weighed
pub mod Complete
pub mod Decided
