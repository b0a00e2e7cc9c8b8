pub mod Bus
pub mod Cells
pub mod Ends
pub mod Plants
pub mod Starts
pub mod Steps
pub mod Takes
