mod Data
pub mod Images
pub mod Kept
pub mod Leaves
pub mod Log
pub mod Places
pub mod Runs
pub mod Taken
pub mod Told
pub mod Writes
