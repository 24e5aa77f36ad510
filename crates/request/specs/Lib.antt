-- What the contracts of this crate cite.
pub mod Kinds
pub mod Fields
pub mod Decoded
pub mod Format
pub mod Who
