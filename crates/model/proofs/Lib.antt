-- Lemmas on the model, from noninterference to what each request tells and changes.
pub mod Unwinding
pub mod Alike
pub mod Interference
pub mod Example
pub mod Cached
pub mod Answering
pub mod Orderly
pub mod Changes
pub mod Sameness
