-- Words for sets of positions that the contracts of several crates cite.
pub mod Bits
pub mod Members
