-- Words of the contracts of this crate.
pub mod Lines
