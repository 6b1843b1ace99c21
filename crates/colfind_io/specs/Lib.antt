pub mod Devices
pub mod Reading
pub mod Writing
pub mod Printing
pub mod Gathering
