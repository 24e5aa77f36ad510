-- Lemmas on queries, and the laws.
pub mod Steps
pub mod Views
pub mod Sums
pub mod Seen
pub mod More
pub mod Back
pub mod Written
pub mod Lengths
