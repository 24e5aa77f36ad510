-- Lemmas on reading requests: where numbers fit their fields, what is read, and where it is refused.
pub mod Fitting
pub mod Reading
pub mod Faults
