pub mod Counts
pub mod Digits
pub mod Ranges
pub mod Rows
pub mod Zeros
