pub mod Heads
pub mod Peeked
