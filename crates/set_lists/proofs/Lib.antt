-- Laws of the set list: written (Records, Written), and read: its mark words (Marks, MarkOrder, Positions), its records (Tests, Entries, Parts), and the
-- ways out of the reader (Ends).
pub mod Records
pub mod Written
pub mod Marks
pub mod MarkOrder
pub mod Positions
pub mod Tests
pub mod Parts
pub mod Entries
pub mod Ends
