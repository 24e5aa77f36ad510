-- What the contracts of this crate cite, and the laws over it.
pub mod CachePlaces
pub mod Entries
pub mod Laws
