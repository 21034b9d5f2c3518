-- What the contracts of a program's text cite.
pub mod Parts
