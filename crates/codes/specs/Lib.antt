pub mod Meaning
pub mod Answers
pub mod Frames
pub mod Cautious
pub mod Recovery
