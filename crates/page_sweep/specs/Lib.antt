pub mod Links
pub mod Sweep
