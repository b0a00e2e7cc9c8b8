pub mod Plan
pub mod Layout
pub mod UnderWay
pub use Rattle.mapped_ram_header.specs.Places
