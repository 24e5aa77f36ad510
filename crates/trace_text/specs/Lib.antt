-- What the contracts of this crate cite.
pub mod Words
pub mod Names
pub mod Faults
pub mod Lines
pub mod Said
pub mod Laws
