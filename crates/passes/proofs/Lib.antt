pub mod Opening
pub mod Visiting
pub mod Turning
pub mod Turns
pub mod Redelivering
