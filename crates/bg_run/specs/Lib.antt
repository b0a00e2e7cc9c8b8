pub mod Phase
pub mod Workers
