pub mod Moves
pub mod Runs
