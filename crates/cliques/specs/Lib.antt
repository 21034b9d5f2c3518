-- What `find_sets` is asked and what it promises (Graph), maximal sets as numbers (Maximal), a run of the search (Search), and the rows part
-- by part (Parts).
pub mod Graph
pub mod Maximal
pub mod Search
pub mod Parts
