pub mod Reading
pub mod Headers
pub mod Segments
