-- What the contracts of this crate cite.
pub mod Rows
pub mod Halving
pub mod Numbers
pub mod Passes
pub mod Laws
