pub mod OnePass
pub mod Operators
pub mod Own
pub mod Value
pub mod Variables
