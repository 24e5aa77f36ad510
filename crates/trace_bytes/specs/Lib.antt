-- What the contracts of this crate cite.
pub mod Bytes
pub mod NextRequest
pub mod PolicyNumbers
pub mod Written
pub mod Refused
