-- Lemmas on what memory holds.
pub mod Within
pub mod Tied
pub mod Refused
pub mod Resting
pub mod Staying
pub mod Lengths
pub mod Listed
