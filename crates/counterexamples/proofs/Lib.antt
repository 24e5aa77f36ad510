-- That the model fits the frame and is useful, that stores leak, and that stores are useless.
pub mod Framed
pub mod Leaks
pub mod Failures
