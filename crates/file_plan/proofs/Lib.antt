mod AnyFile
mod FilePieces
mod Gaps
pub mod Heads
mod OneFile
mod OneMachine
pub mod Pieces
pub mod Records
pub mod UnderWay
