pub mod StateLemmas
pub mod StatePointLemmas
pub mod HeldBytes
pub mod ReadingLemmas
pub mod StateLaws
pub mod WordLaws
pub mod WorkedStateLemmas
