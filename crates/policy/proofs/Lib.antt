-- Lemmas on policies, and the laws.
pub mod Steps
pub mod Judging
pub mod Reading
pub mod Proved
pub mod Alike
pub mod Made
mod Filled
mod Deciding
