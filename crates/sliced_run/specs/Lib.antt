pub mod CoreRun
pub mod Sliced
pub mod Phase
