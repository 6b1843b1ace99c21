pub mod Strings
pub mod SafeUnits
pub mod SafeTexts
pub mod Standing
pub mod SafeOffsets
mod WorkedRowLemmas
