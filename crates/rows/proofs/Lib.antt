-- Lemmas on rows, from lists to memory; the last has the laws.
pub mod Orders
pub mod Keys
pub mod Copied
pub mod Splits
pub mod Halves
pub mod Memory
pub mod Paired
pub mod Passes
pub mod Places
pub mod Images
pub mod Theorems
