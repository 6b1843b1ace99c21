pub mod Parts
pub mod PartedLaws
pub mod Handing
pub mod WorkedRows
