pub mod Bus
pub mod Cells
pub mod Inside
pub mod Plant
pub mod PlantLaws
pub mod Room
