pub mod Asked
pub mod Finished
pub mod Moved
pub mod Opened
pub mod RunsOn
pub mod Shown
pub mod Stepped
pub mod Touched
