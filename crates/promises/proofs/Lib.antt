-- From calls on memory to the model.
pub mod Proved
pub mod Contents
pub mod Effects
pub mod Example
pub mod Places
pub mod Orders
