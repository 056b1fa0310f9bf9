pub mod Fed
pub mod Pipe
pub mod Spout
