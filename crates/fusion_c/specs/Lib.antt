-- Words of the contracts on the answer buffer.
pub mod Words
