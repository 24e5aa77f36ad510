-- What the contracts of this crate cite.
pub mod Model
pub mod Events
pub mod Promises
pub mod Effects
pub mod Order
pub mod Example
pub mod Sameness
