pub mod MoveLemmas
pub mod RunLemmas
