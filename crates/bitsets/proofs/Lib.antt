-- Laws of sets of positions: what is in them (Bits), how many they are (Sizes), their order (Order), their list (Positions), and a walk over them (Rests).
pub mod Bits
pub mod Order
pub mod Positions
pub mod Rests
pub mod Sizes
pub mod Words
