-- Lemmas on what the functions write.
pub mod Pairs
pub mod Separated
