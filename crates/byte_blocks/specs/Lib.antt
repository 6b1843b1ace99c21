pub mod Sets
pub mod Ascii
pub mod TwoBytes
pub mod Lanes
