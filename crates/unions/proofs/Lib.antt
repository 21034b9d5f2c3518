-- Laws of the calls.
pub mod Pairs
pub mod Tables
pub mod Ends
pub mod Fusing
