-- Laws of digits, of filled patterns and their ones, of rows as parts of words, of the columns' filled rows, and of tables that are tested entry
-- by entry.
pub mod Table
pub mod Bytes
pub mod Digits
pub mod Patterns
pub mod Parts
pub mod FilledRows
