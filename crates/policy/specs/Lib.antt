-- What the contracts of this crate cite, and the laws over it.
pub mod Rules
pub mod Views
pub mod Numbers
pub mod Layout
pub mod Policies
pub mod Read
pub mod FromViews
pub mod Access
pub mod Laws
