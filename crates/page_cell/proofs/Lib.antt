pub mod Instant
pub mod Parts
