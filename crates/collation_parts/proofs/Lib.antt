pub mod PartAnswers
pub mod PartedTexts
pub mod Calls
pub mod WorkedRowLemmas
