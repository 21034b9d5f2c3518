-- Words of the contracts between the calls and their parts.
pub mod Questions
pub mod Fused
