-- Lemmas on numbers in bytes, and the laws of requests and policies.
pub mod Filling
pub mod Parts
pub mod Pushes
pub mod Lying
pub mod Wholes
pub mod Writing
pub mod Standing
