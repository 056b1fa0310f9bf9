pub mod Profile
pub mod Program
pub mod Replay
pub mod Status
pub mod Told
