pub mod Cell
pub mod Core
pub mod Plant
