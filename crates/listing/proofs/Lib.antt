-- Laws of lines that the proofs of this crate cite.
pub mod Fields
pub mod SetLines
