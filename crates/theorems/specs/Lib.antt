-- What a theorem says that no one file of `definitions` does.
pub mod Grouping
