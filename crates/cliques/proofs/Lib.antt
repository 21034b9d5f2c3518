-- The theory of the search: maximal sets of a part of the rows, all of them found once and in bounded work, and those of all parts.
pub mod Sublists
pub mod Maximal
pub mod Adds
pub mod Run
pub mod ByParts
pub mod Taking
pub mod Turns
pub mod Growing
pub mod PartTurns
pub mod Listed
pub mod Complete
pub mod Found
pub mod Subgraph
pub mod Work
pub mod InOrder
