pub mod Halves
pub mod Packed
pub mod Named
pub mod Pieces
pub mod ReadBack
pub mod Runs
