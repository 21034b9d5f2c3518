-- Laws of the questions put to one image, and of its writing.
pub mod Numbers
pub mod Parts
pub mod Writing
pub mod Rows
