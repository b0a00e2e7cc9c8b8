pub mod CopyEnd
pub mod Inlet
pub mod Opening
pub mod Outlet
pub mod Relayed
pub mod Rule
pub mod WriteEnd
pub mod WriteLaws
