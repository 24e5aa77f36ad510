-- Lemmas on what comes of the bytes of a trace, and on how playing ends.
pub mod Outcomes
