-- Lemmas on kept answers, from one place to the laws.
pub mod FirstFound
pub mod Numbers
pub mod Stored
pub mod Reading
pub mod Theorems
