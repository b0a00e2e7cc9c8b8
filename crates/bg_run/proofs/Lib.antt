pub mod Turns
pub mod Files
pub mod Steps
pub mod Saves
pub mod Ends
