-- Laws that the proofs of this crate cite.
pub mod Bands
pub mod LineParts
pub mod Pages
