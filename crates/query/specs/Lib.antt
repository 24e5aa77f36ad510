-- What the contracts of this crate cite, and the laws of it.
pub mod Query
pub mod Answers
pub mod Looks
pub mod AnswerRows
pub mod More
pub mod Laws
