pub mod Chosen
pub mod Jumps
pub mod Outcomes
pub mod Registers
pub mod Requests
pub mod Servable
pub mod Words
