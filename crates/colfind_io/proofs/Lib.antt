pub mod Pieces
pub mod Prints
pub mod Gathered
pub mod Texts
