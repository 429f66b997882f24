pub mod Taken
pub mod Files
pub mod Kept
pub mod Steps
pub mod Talks
