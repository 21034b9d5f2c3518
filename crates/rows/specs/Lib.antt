-- Rows named by their indices.
pub mod Indices
pub mod Rows
