pub mod Follow
pub mod Carried
