-- What the program asks of a graph before it searches it.
pub mod Mirrored
