-- What the contracts of this crate cite.
pub mod Traces
pub mod Promises
pub mod Contents
pub mod Effects
pub mod Example
