pub mod State
pub mod StateTests
pub mod Reading
pub mod Saving
pub mod Laws
pub mod WorkedStates
