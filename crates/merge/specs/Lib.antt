-- What the contracts of this crate cite.
pub mod Numbers
pub mod Laws
