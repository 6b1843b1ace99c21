pub mod Safe
pub mod Found
pub mod Laws
pub mod WorkedRows
