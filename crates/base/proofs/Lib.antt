-- Lemmas on lists in arrays.
mod Fills
