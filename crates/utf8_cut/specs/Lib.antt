pub mod Characters
pub mod Inside
pub mod Sequences
pub mod State
pub mod Value
