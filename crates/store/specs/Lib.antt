-- What the contracts of this crate cite.
pub mod Memory
pub mod Calls
pub mod Served
pub mod Simulation
