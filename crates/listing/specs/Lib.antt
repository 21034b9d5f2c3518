-- Words of the contracts of this crate: the lines of a set list and of a table in a buffer.
pub mod Lines
