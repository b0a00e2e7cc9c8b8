pub mod Links
pub mod Queue
