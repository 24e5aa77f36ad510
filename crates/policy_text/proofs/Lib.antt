-- Lemmas on what an overview lists, and its law.
pub mod Listing
pub mod There
pub mod Proved
