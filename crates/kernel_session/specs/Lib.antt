pub mod Laws
pub mod Session
pub mod Work
