-- Laws of rows named by indices: comparing, ordering, finding and writing them.
pub mod Comparing
pub mod Indices
pub mod Numbered
pub mod Positions
pub mod Writing
