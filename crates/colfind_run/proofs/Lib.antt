pub mod Commands
pub mod Concluding
pub mod Runs
pub mod Searched
pub mod Searches
pub mod Selections
pub mod Stops
