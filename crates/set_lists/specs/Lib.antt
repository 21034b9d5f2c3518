-- What the functions on set lists ask for and promise.
pub mod Records
pub mod Marks
