pub mod Arithmetic
pub mod Unraised
