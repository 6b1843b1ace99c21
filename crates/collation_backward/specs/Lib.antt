pub mod Backward
pub mod Ending
pub mod Going
pub mod Laws
pub mod WorkedRows
