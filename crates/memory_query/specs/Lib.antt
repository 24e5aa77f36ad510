-- What the contracts of this crate cite.
pub mod CallResult
pub mod MemoryParts
pub mod AskResult
pub mod Tie
pub mod Alike
pub mod Stay
