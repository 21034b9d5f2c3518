-- Laws of the graph of T, of joined rows and of the fused table.
pub mod Words
pub mod FilledRows
pub mod HeldRows
pub mod Grouping
pub mod Counting
pub mod Apart
pub mod Crossing
pub mod Agreeing
pub mod Narrowing
pub mod Neighbours
pub mod Picks
pub mod Joins
pub mod RowPositions
pub mod FusedTables
