pub mod DeviceText
pub mod Reader
pub mod Reading
