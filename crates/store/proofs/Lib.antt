-- From memory to the model.
pub mod Places
pub mod Parts
pub mod Standing
pub mod Changing
pub mod Following
pub mod Asks
pub mod Serving
pub mod Refused
pub mod Replaced
