pub mod Undo
pub mod Guarded
