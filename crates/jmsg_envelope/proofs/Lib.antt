pub mod Delimiters
pub mod Cuts
pub mod HexCase
pub mod Uniqueness
pub mod Names
