-- What the contracts of this crate cite.
pub mod Printed
pub mod Turns
pub mod Playing
pub mod Enough
