-- From a part of memory to rows.
pub mod Held
