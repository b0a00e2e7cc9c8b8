pub mod AddressMap
pub mod Cause
pub mod Devices
pub mod Page
pub mod PageLinks
pub mod Shape
