pub mod Laws
pub mod PointFaults
pub mod Points
pub mod Reordering
pub mod WorkedPoints
