pub mod Piece
pub mod Frame
pub mod Loaded
pub mod Stands
pub mod Whole
