pub mod Judging
pub mod Listing
