-- Laws of the counts of filled cells, of candidates, of the other rows than one, of the trying of a row, and of the rows that stay.
pub mod Counting
pub mod Passing
pub mod Covering
pub mod OtherRows
pub mod Trying
pub mod Keeping
