-- What command lines ask for, what is read, and how programs end.
pub mod Inputs
pub mod Programs
pub mod Stops
pub mod Words
