-- What the contracts of this crate cite.
pub mod Forms
pub mod Shown
pub mod Laws
