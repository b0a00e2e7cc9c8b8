pub mod Layer
pub mod Reading
