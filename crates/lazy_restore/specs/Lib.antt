pub mod Lazy
pub mod Rest
pub mod Answers
pub mod Runs
