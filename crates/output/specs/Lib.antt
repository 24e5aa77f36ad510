-- What the contracts of this crate cite.
pub mod Output
