-- Lemmas on merging, from lists to memory; the last has the laws.
pub mod Orders
pub mod Ranges
pub mod Turns
pub mod Parts
pub mod Merges
pub mod Proved
