pub mod Anchored
pub mod Answers
pub mod Laws
pub mod Comparing
pub mod Compared
pub mod Counted
pub mod Parking
pub mod WorkedRows
