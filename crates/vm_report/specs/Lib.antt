pub mod Hex
pub mod Ram
pub mod Report
