-- Lemmas on lines that are read and bytes that are written; the last has the law.
pub mod Oks
pub mod Viewing
pub mod Turns
pub mod Good
pub mod Cutting
pub mod Back
