pub mod AmoOp
pub mod Decode
pub mod Immediate
pub mod Op
pub mod Row
pub mod Valid
pub mod Word
