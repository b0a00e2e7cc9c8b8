pub mod Mirror
pub mod Removed
pub mod Linked
pub mod Unlinked
pub mod Sweeps
pub mod Full
