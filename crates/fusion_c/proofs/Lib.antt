-- What the proofs of the calls use.
mod Bounds
