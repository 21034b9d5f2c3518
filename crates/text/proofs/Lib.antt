-- Laws of texts that are written behind one another.
pub mod Writing
