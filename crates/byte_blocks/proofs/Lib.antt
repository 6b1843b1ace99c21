pub mod LaneLemmas
pub mod PassLemmas
pub mod TwoByteLemmas
