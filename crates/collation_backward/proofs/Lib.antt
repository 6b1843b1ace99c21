pub mod Ranges
pub mod BackwardCalls
pub mod Told
pub mod SaidInPieces
pub mod Behind
pub mod Below
pub mod LastFaults
pub mod StartTold
pub mod FaultsFrom
pub mod MoreKeys
pub mod EndsAnswer
mod WorkedRowLemmas
