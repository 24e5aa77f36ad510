-- What the contracts of this crate cite.
pub mod Store
pub mod Statements
pub mod Variants
pub mod Cases
pub mod LeakingStores
pub mod Failures
pub mod UselessChanges
pub mod UselessQueries
