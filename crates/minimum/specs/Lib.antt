-- The trying of minimum union.
pub mod Trying
pub mod Candidates
