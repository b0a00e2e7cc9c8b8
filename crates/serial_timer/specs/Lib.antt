pub mod Serial
pub mod Timer
