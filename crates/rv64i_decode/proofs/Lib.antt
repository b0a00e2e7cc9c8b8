pub mod Decoded
pub mod Immediates
pub mod OneEncoding
pub mod Pieces
pub mod Ranges
pub mod Rows
pub mod WithImmediate
