-- What the steps of complement union compute, between T and the written words.
pub mod Groups
pub mod Graph
pub mod Join
pub mod Positions
pub mod Fused
pub mod UnionRows
