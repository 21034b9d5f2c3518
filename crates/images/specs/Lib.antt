-- Words of the contracts on the writing of images.
pub mod Writing
