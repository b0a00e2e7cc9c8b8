pub mod Addresses
pub mod LinkedPages
pub mod Pages
