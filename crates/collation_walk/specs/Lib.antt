pub mod Walks
pub mod Walked
pub mod Kept
pub mod HandingOut
