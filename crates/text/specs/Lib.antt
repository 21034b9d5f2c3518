-- The bytes that stand between fields and behind them, and what a writer promises.
pub mod Bytes
pub mod Writer
