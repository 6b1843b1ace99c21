pub mod Symbols
pub mod Laws
pub mod Letters
pub mod Finding
pub mod Joining
pub mod Store
pub mod Apart
pub mod Clusters
