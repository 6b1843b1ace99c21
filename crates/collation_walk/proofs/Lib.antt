pub mod WalkSteps
pub mod ItemLemmas
pub mod RestoredWalk
pub mod LetterSteps
pub mod LetterApart
pub mod Folds
