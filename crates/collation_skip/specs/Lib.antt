pub mod Passed
pub mod BegunBytes
pub mod Reached
pub mod Rows
pub mod Blocks
pub mod TwoBytes
pub mod Skips
