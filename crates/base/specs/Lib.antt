-- What the contracts of this crate cite.
pub mod Lists
pub mod Refusals
