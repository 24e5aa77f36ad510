-- What the contracts of this crate cite.
pub mod ChangeResult
pub mod Changes
pub mod Parts
pub mod Holding
