-- The lemmas of this crate.
pub mod Going
pub mod Bounded
pub mod SameMemory
pub mod Whole
pub mod Opened
pub mod Sufficient
