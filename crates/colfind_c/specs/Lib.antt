pub mod Handles
pub mod Queues
pub mod Queries
pub mod Statuses
pub mod Messages
pub mod Parkings
pub mod Sessions
pub mod Exports
