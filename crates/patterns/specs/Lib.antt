-- The filled patterns of rows, and the columns' filled rows.
pub mod Pattern
pub mod Columns
