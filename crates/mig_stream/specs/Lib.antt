pub mod Text
pub mod Pieces
pub mod Turns
pub mod Checks
