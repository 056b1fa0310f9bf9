pub mod Lines
pub mod Replay
pub mod Session
pub mod Stamp
